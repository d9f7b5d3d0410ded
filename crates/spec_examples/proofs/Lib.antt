mod Layers
mod Lowering
mod Typing
