use Rattle.system_conf.proofs.Chains.{root_of_chain}
use Rattle.system_conf.proofs.roots.root_of.Goals as goal

pub returns-clause-root : goal.returns-clause-root
returns-clause-root c = root_of_chain c.args.slots.now c.args.at c.chain_end.result c.chain_end.ensures
