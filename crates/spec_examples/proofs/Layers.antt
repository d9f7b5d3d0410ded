mod Items
mod Numbers
mod Once
mod Tokens
mod Values
