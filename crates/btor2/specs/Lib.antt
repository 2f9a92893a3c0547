pub mod Sort
pub mod Op
pub mod Walk
pub mod SortRule
pub mod Value
pub mod SortTable
