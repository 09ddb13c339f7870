pub mod Hmac
pub mod HmacSha256
