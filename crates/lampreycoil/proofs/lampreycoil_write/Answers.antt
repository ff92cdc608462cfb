use Rattle.lampreycoil.proofs.lampreycoil_write.Goals as goal

pub returns : goal.returns
returns c = c.write.ensures
