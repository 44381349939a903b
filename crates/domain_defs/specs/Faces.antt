-- The faces of port bits at which two domains meet.
use Rattle.std.specs.Prelude.{◌≡◌, ◌≢◌, ℕ, Bool, true, false, if◌then◌else◌, Option, Some, None, option_and_then, slice_get}
use Rattle.pw_defs.specs.declared.cells.Dir.{Dir}
use Rattle.pw_defs.specs.declared.design.Design.{Design}
use Rattle.pw_defs.specs.declared.design.PortBit.{PortBit}
use Rattle.pw_defs.specs.declared.intent.Face.{Face}
use Rattle.pw_defs.specs.declared.intent.Intent.{Intent}
use Rattle.design_defs.specs.Joined.{parent_of}
use Rattle.design_defs.specs.Ports.{body_of, dir_in, is_input, is_output}

-- the face of a port bit towards its instance
abbrev pub inner_face : PortBit → ℕ → Face
inner_face bit domain = record { bit = bit; inner = true; domain = domain }

-- the face of a port bit towards the instance's parent
abbrev pub outer_face : PortBit → ℕ → Face
outer_face bit domain = record { bit = bit; inner = false; domain = domain }

-- Where an instance's domain differs from its parent's, each of its port bits has an outer face, of the parent's domain,
-- and an inner face, of the instance's domain. A port bit of the top has an inner face only.
pub data HasFaces (design : Design) (intent : Intent) (bit : PortBit) : Option Face → Face → Type 0 where
  of_top : (domain : ℕ) → parent_of design bit.inst ≡ Some None → slice_get intent.domain_of bit.inst ≡ Some domain
      → HasFaces design intent bit None (inner_face bit domain)
  between : (parent outside inside : ℕ) → parent_of design bit.inst ≡ Some (Some parent) → slice_get intent.domain_of parent ≡ Some outside
      → slice_get intent.domain_of bit.inst ≡ Some inside → outside ≢ inside
      → HasFaces design intent bit (Some (outer_face bit outside)) (inner_face bit inside)

-- the instance of a port bit and its parent are in one domain, so that the bit has no face
pub record DomainsAgree (design : Design) (intent : Intent) (bit : PortBit) : Type 0 where
  pub parent : ℕ
  pub above : parent_of design bit.inst ≡ Some (Some parent)
  pub domain : ℕ
  pub inside : slice_get intent.domain_of bit.inst ≡ Some domain
  pub outside : slice_get intent.domain_of parent ≡ Some domain

-- which way the port of a port bit carries its signal
abbrev pub dir_of : Design → PortBit → Option Dir
dir_of design bit = option_and_then (λ body. dir_in design body bit.port) (body_of design bit.inst)

-- Whether a face is an input of its domain: at an inner face an input port is, at an outer face an output port.
abbrev pub enters : Design → Face → Bool
enters design face = if face.inner then is_input (dir_of design face.bit) else is_output (dir_of design face.bit)
