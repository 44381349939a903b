use Rattle.std.proofs.Common.{◌≡◌, ◌∷◌, [], map, string_bytes, refl}
use Rattle.upf_sign.proofs.NineWords.{nine, options_of}
use Rattle.upf_sign.specs.Jobs.{job_in}
use Rattle.upf_sign.proofs.words.job_of.Goals as goal

pub returns-then-has_values : goal.returns-then-has_values
returns-then-has_values c =
    let read = nine string_bytes c.args.words.now c.command-item.result c.lib-item.result c.library-item.result c.net-item.result c.netlist-item.result c.upf-item.result
    c.script-item.result c.option-item.result c.top-item.result c.in-len9.len_at_least c.in-len9.len_below c.command-item.is c.lib-item.is c.library-item.is c.net-item.is
    c.netlist-item.is c.upf-item.is c.script-item.is c.option-item.is c.top-item.is in
    let job = job_in (record { library = c.as_str.result; netlist = c.as_str-in-len9.result; script = c.as_str-in-len9-2.result; top = c.as_str-in-len9-3.result }) in
    let spelled : map string_bytes c.args.words.now ≡ c.deref.result.now ∷ c.deref-in-len9.result.now ∷ job.library ∷ c.deref-in-len9-2.result.now ∷ job.netlist ∷ c.deref-in-len9-3.result.now
    ∷ job.script ∷ c.deref-in-len9-4.result.now ∷ job.top ∷ [] =
    cc (
      c.deref.ensures,
      c.deref-in-len9.ensures,
      c.deref-in-len9-2.ensures,
      c.deref-in-len9-3.ensures,
      c.deref-in-len9-4.ensures,
      c.as_str.ensures.value,
      c.as_str-in-len9.ensures.value,
      c.as_str-in-len9-2.ensures.value,
      c.as_str-in-len9-3.ensures.value,
    ) in
    options_of _ job _ _ _ _ _ spelled (c.if-are_options.ensures.0 refl) (c.if-has_values.ensures.0 refl)
