mod Places
mod PlanShapes
mod Reading
mod Stored
mod Bounds
mod Samples
