pub mod PlacesPut
