mod Elaborated
mod PendingKeys
