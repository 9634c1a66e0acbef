-- `lent::opening::opened_record` meets its contract: what is in a slice of bytes are bytes, by its type. Assumes nothing.
use Rattle.lent.proofs.opening.opened_record.Goals as goal

pub returns-clause-bytes : goal.returns-clause-bytes
returns-clause-bytes c = λ place. (c.type_inv.record place).fits
