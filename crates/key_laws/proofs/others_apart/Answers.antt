-- What `others_apart` ensures.
use Rattle.key_laws.proofs.Others.{unacked_not, index_not, mutex_not, binding_not, reply_not, table_apart, mutex_unacked, mutex_index, binding_unacked, binding_index, reply_unacked, reply_index}
use Rattle.key_laws.proofs.others_apart.Goals as goal

pub returns : goal.returns
returns c = λ l. (unacked_not l, index_not l, table_apart l, (mutex_not l, mutex_unacked l, mutex_index l), λ e. (binding_not l e, binding_unacked l e, binding_index l e), λ k h. (reply_not l k h, reply_unacked l k h, reply_index l k h))
