-- To be believed:
pub mod Sheet
pub mod Silent
pub mod Listed
-- Theorems:
pub mod SheetLaws
pub mod SilentLaws
pub mod ListedLaws
-- Laws:
pub mod Computed
