mod ReadLemmas
mod TrailLemmas
mod EndLemmas
