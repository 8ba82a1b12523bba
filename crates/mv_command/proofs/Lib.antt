pub mod Numerals
pub mod Pieces
pub mod ItemTexts
pub mod OracleTexts
pub mod Same
pub mod Table
