-- How answers stand in types:
pub mod Arrays
