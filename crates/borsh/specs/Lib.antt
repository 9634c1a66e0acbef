pub mod Borsh
