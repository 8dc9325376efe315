-- Pruning in arrays: domains, and the sweep that they are given to.
-- How answers stand in types:
pub mod Arrays
-- Laws:
pub mod Arcs
