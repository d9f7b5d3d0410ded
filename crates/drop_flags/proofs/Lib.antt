mod Asking
mod Following
mod Nearby
mod Stored
mod Told
mod Upper
