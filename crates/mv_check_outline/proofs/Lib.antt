mod KeyLists
mod OneMore
pub mod Places
