-- What the contracts of the account's own helpers cite: who calls the account needs none of it.
-- Assumes nothing.
pub mod Known
pub mod Judged
pub mod Taken
pub mod Reached
pub mod First
