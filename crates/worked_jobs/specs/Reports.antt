-- The reports on the jobs.
use Rattle.std.specs.Prelude.{[], ◌∷◌, Some, None, true, false, codes}
use Rattle.pw_defs.specs.declared.values.Value.TheVariants.{Off, On}
use Rattle.pw_defs.specs.declared.chains.Kind.TheVariants.{IsoMissing}
use Rattle.pw_defs.specs.declared.report.Report.{Report}

-- the report on the two blocks
abbrev pub pair : Report
pair = record {
  top = codes "top";
  chains = 2;
  passed = 0;
  boundaries = [];
  visible = codes "VA" ∷ codes "VB" ∷ codes "VSS" ∷ [];
  findings = record { kind = IsoMissing; receiver = codes "u_b/i/A"; driver = codes "u_a/o/Y"; forced = false; witness = Some (record { values = Off ∷ (On 800000) ∷ (On 0) ∷ [] }) } ∷ [];
}

-- the report on the block whose port has two bits
abbrev pub bits : Report
bits = record {
  top = codes "topv";
  chains = 2;
  passed = 0;
  boundaries = [];
  visible = codes "VB" ∷ [];
  findings = record { kind = IsoMissing; receiver = codes "u_b/i1/A"; driver = codes "x[1]"; forced = true; witness = None } ∷ [];
}

-- the report on the chip
abbrev pub chip : Report
chip = record {
  top = codes "chip";
  chains = 2;
  passed = 0;
  boundaries = [];
  visible = codes "V1" ∷ codes "V2" ∷ [];
  findings = record { kind = IsoMissing; receiver = codes "m/u_b/i/A"; driver = codes "m/u_a/o/Y"; forced = false; witness = Some (record { values = Off ∷ (On 800000) ∷ [] }) } ∷ [];
}
