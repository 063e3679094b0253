pub mod Conflicts
pub mod Laws
pub mod Plan
pub mod Scene
pub mod SceneOf
pub mod Words
pub mod private
