-- A command that no earlier part took is one of the later part.
use Rattle.std.proofs.Common.{◌≡◌, ℕ, List, Bool, true, Option, ℤ, refl, Result, Ok, Err, OnOk}
use Rattle.store_model.specs.Words.{Bytes}
use Rattle.store_model.specs.Connections.{Conns, posted}
use Rattle.store_model.specs.declared.command.Command.{Command}
use Rattle.store_model.specs.declared.command.Command.TheVariants.{Set, Del, Expire, Lpush, Rpush, Rpop, Brpop, Sadd, Srem, Hset, Hdel, Zadd, Zrem, Publish}
use Rattle.mini_store.specs.RunParts.{is_on_tables, only_looks}

pub always_ok : {X E P : Type 0} (r : Result X E) → P → OnOk r P
always_ok (Ok x) p = p
always_ok (Err e) p = tt

-- a command that is no message posts nothing
pub posts_nothing : (c : Command) (m : Conns) → ((x t : Bytes) → c ≡ Publish x t → ⊥) → m ≡ posted c m
posts_nothing (Publish x t) m n = absurd (n x t refl)
posts_nothing other m n = refl

pub on_tables : (c : Command) → ((k v : Bytes) (b : Bool) (o : Option ℕ) → c ≡ Set k v b o → ⊥) → ((ks : List Bytes) → c ≡ Del ks → ⊥) → ((k : Bytes) (s : ℕ) → c ≡ Expire k s → ⊥)
    → ((k : Bytes) (vs : List Bytes) → c ≡ Lpush k vs → ⊥) → ((k : Bytes) (vs : List Bytes) → c ≡ Rpush k vs → ⊥) → ((k : Bytes) → c ≡ Rpop k → ⊥) → ((ks : List Bytes) → c ≡ Brpop ks → ⊥)
    → ((x t : Bytes) → c ≡ Publish x t → ⊥) → is_on_tables c ≡ true
on_tables (Set k v b o) n1 n2 n3 n4 n5 n6 n7 n8 = absurd (n1 k v b o refl)
on_tables (Del ks) n1 n2 n3 n4 n5 n6 n7 n8 = absurd (n2 ks refl)
on_tables (Expire k s) n1 n2 n3 n4 n5 n6 n7 n8 = absurd (n3 k s refl)
on_tables (Lpush k vs) n1 n2 n3 n4 n5 n6 n7 n8 = absurd (n4 k vs refl)
on_tables (Rpush k vs) n1 n2 n3 n4 n5 n6 n7 n8 = absurd (n5 k vs refl)
on_tables (Rpop k) n1 n2 n3 n4 n5 n6 n7 n8 = absurd (n6 k refl)
on_tables (Brpop ks) n1 n2 n3 n4 n5 n6 n7 n8 = absurd (n7 ks refl)
on_tables (Publish x t) n1 n2 n3 n4 n5 n6 n7 n8 = absurd (n8 x t refl)
on_tables other n1 n2 n3 n4 n5 n6 n7 n8 = refl

pub looks : (c : Command) → ((k : Bytes) (xs : List Bytes) → c ≡ Sadd k xs → ⊥) → ((k : Bytes) (xs : List Bytes) → c ≡ Srem k xs → ⊥) → ((k f v : Bytes) → c ≡ Hset k f v → ⊥)
    → ((k : Bytes) (fs : List Bytes) → c ≡ Hdel k fs → ⊥) → ((k : Bytes) (s : ℤ) (x : Bytes) → c ≡ Zadd k s x → ⊥) → ((k : Bytes) (xs : List Bytes) → c ≡ Zrem k xs → ⊥)
    → is_on_tables c ≡ true → only_looks c ≡ true
looks (Sadd k xs) n1 n2 n3 n4 n5 n6 e = absurd (n1 k xs refl)
looks (Srem k xs) n1 n2 n3 n4 n5 n6 e = absurd (n2 k xs refl)
looks (Hset k f v) n1 n2 n3 n4 n5 n6 e = absurd (n3 k f v refl)
looks (Hdel k fs) n1 n2 n3 n4 n5 n6 e = absurd (n4 k fs refl)
looks (Zadd k s x) n1 n2 n3 n4 n5 n6 e = absurd (n5 k s x refl)
looks (Zrem k xs) n1 n2 n3 n4 n5 n6 e = absurd (n6 k xs refl)
looks other n1 n2 n3 n4 n5 n6 e = e
