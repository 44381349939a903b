use Rattle.net_names.proofs.bodies.mark_module.Goals as goal

pub returns : goal.returns
returns c h =
    let insts = c.mark_insts.ensures h.differ h.insts in
    let vectors = c.mark_vectors.ensures h.differ h.vectors in
    record { still = record { differ = h.differ; insts = insts.count; vectors = vectors.marked.count }; insts = insts; vectors = vectors }
