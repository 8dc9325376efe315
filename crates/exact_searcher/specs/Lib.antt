-- The pruned search, in arrays.
-- How answers stand in types:
pub mod Arrays
