mod Terms
pub mod StoredForm
pub mod Position
