pub mod Agreement
pub mod Following
pub mod Laws
pub mod NeverStores
