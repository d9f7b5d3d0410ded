mod Compared
mod PartsStand
mod Reach
mod States
mod Taken
mod TypesFound
