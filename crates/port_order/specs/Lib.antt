pub mod PortNames
pub mod PortOrders
pub mod Listings
