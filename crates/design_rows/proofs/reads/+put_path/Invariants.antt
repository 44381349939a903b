use Rattle.design_rows.proofs.reads.+put_path.Given as goal

-- what an instance is inside comes before it
abbrev pub decreases-put_path : goal.decreases-put_path
decreases-put_path l = l.n
