-- The floors of the theory, each over those before it: the numbers of a table, the queue of a cell, the invariant of the search,
-- the candidates of a cell, the search; then the chart's theorem, and what its callers need of it.
pub mod Table
pub mod Queue
pub mod Invariant
pub mod Candidates
pub mod Search
pub mod Plane
pub mod Chart
pub mod Accepted
