pub mod Before
pub mod Claims
pub mod AddressClaims
pub mod ReaderClaims
