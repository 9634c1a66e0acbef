-- The worked lines hold of the definition, by computation. Assumes nothing.
use mathlib.Core.Path.{refl}
use Rattle.time.specs.Raw.{raw, span, instant, duration, micros, plus, added}
use Rattle.words.specs.Words.{word_at}
use Rattle.words.specs.Names.{bit_named}
use Rattle.words.specs.Values.{bits_from, bits_named}
use Rattle.digits.specs.Digits.{digit_of, number_from, number_in, hex_in}
use Rattle.moments.specs.Moments.{length_of, moment_of}
use Rattle.fields.specs.Fields.{register_in, value_in, address_in, byte_in, bit_in, mode_in, module_in, oscillator_in}
use Rattle.grammar.specs.Grammar.{ended, value_line, write_line, byte_line, data_line, read_line, word_line, oscillator_line, module_line, environment_line, cell_line, look_line, line_for, call_line, parsed}
use Rattle.grammar.specs.Worked.{Worked}

pub worked : Worked
unfolding raw span instant duration micros plus added word_at bit_named bits_from bits_named
    digit_of number_from number_in hex_in length_of moment_of register_in value_in address_in byte_in bit_in mode_in module_in oscillator_in
    ended value_line write_line byte_line data_line read_line word_line oscillator_line module_line environment_line cell_line look_line line_for call_line parsed
worked =
    record {
      bits = refl;
      bit = refl;
      number = refl;
      twice = refl;
      other_register = refl;
      relative = refl;
      first = refl;
      exact = refl;
      whole = refl;
      byte = refl;
      cell = refl;
      no_bit = refl;
      past = refl;
      past_word = refl;
      no_address = refl;
      no_call = refl;
      unknown = refl;
      more = refl;
      returned = refl;
      nothing = (refl, refl);
    }
