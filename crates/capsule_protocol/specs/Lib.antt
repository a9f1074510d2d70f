pub mod Rules
pub mod Bytes
pub mod Items
pub mod Field
pub mod Claims
pub mod Cases
pub mod Stages
