-- What the functions answer, and the laws by which their loops go.
-- How answers stand in types:
pub mod Answers
-- Laws:
pub mod JobLaws
pub mod LinkLaws
