-- The standard's validation algorithm, and what it makes sure of.
pub mod Algorithm
pub mod StandardSteps
pub mod StaysValid
pub mod Sound
