pub mod Base64Url
pub mod Pae
pub mod Token
pub mod Wrap
pub mod KeyId
pub mod Fails
pub mod Opening
pub mod Laws
