mod BelowLemmas
mod NameLemmas
mod WayLemmas
mod HereLemmas
