pub mod Ascii
pub mod Numeral
pub mod Put
pub mod BadName
