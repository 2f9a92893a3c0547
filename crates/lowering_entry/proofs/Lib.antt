pub mod SameAnswer
