-- What is reached by steps from one thing to the next.

-- y is reached from x by one step or more
pub data IsReached {X : Type 0} (Step : X → X → Type 0) : X → X → Type 0 where
  one : (x y : X) → Step x y → IsReached Step x y
  more : (x y z : X) → Step x y → IsReached Step y z → IsReached Step x z

-- no list of steps comes back to where it began
abbrev pub HasNoRing : {X : Type 0} → (X → X → Type 0) → Type 0
HasNoRing {X} Step = (x : X) → IsReached Step x x → ⊥
