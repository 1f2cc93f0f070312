pub mod Headers
pub mod Spelled
pub mod Layouts
pub mod Plans
pub mod Ring
pub mod Replied
