pub mod Links
pub mod Picture
pub mod Fixed
pub mod Svg
pub mod Drawing
pub mod private
