pub mod Signs
pub mod CubeWords
