pub mod AsGood
pub mod PlainTrees
pub mod PlainCode
pub mod PlainNumbers
pub mod PlainKept
pub mod PlainGood
