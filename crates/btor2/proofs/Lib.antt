pub mod Sort
pub mod Op
pub mod Walk
pub mod LineIs
pub mod SortRule
pub mod Value
pub mod Range
pub mod SortTable
