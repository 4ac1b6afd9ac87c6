pub mod KnownNeeds
