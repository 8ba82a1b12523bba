mod OneMore
mod Outlines
mod Types
mod Answers
mod Counted
mod Ends
mod Repeated
mod Turns
