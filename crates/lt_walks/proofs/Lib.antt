pub mod OneWalk
pub mod EachWalk
pub mod PlainWalkLemmas
pub mod OnTheWay
