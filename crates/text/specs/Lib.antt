-- To be believed:
pub mod Text
-- Laws:
pub mod TextLaws
