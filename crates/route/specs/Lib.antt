-- In the order in which to read them. Lcsp stands by itself: it is the published definition. `Laws` is what the layers above go by; `Inner`, `Ways`
-- and `Walks` are for the contracts of inner functions alone.
pub mod Lcsp
pub mod Routes
pub mod Permission
pub mod Subproblems
pub mod Instances
pub mod Sheets
pub mod Refusals
pub mod Values
pub mod Claims
pub mod Laws
pub mod Inner
pub mod Ways
pub mod Walks
pub mod Examples
