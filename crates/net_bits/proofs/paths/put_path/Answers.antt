use Rattle.std.proofs.Common.{◌++◌, ap, ◌∙◌, map}
use Rattle.design_defs.specs.Hierarchy.{path}
use Rattle.module_rows.specs.View.{name_at}
use Rattle.net_bits.proofs.Ups.{names_are}
use Rattle.net_bits.proofs.paths.put_path.Goals as goal

pub returns : goal.returns
returns c s bits are way at =
    let symbols = c.args.modules.now.symbols in
    c.in_ok-put_names.ensures ∙ ap (λ names. c.args.out.now ++ path (map (name_at symbols) names)) c.as_slice.ensures.value
    ∙ ap (λ w. c.args.out.now ++ path w) (names_are s c.args.modules.now bits c.args.instances.now are c.args.n c.in_ok-names.names.items c.in_ok-names.ensures way at)
