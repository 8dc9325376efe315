-- To be believed:
pub mod Registers
-- the answers as the paper numbers them:
pub mod Numbered
-- Laws:
pub mod RegisterLaws
pub mod ShownLaws
