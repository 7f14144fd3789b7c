-- The numbers of two kinds differ, and those of two parts.
use Rattle.std.proofs.Common.{◌≡◌, ℕ, ◌==◌, cond, sym, ap, ◌∙◌, refl}
use Rattle.game_tables.specs.Numbers.{kind_number, part_number}
use Rattle.game_tables.specs.declared.kind.Kind.{Kind}
use Rattle.game_tables.specs.declared.kind.Kind.TheVariants.{Source, Controller, Creep, Spawn, Extension, Storage, Container, Road, Pile, Site, Tower, Rampart, Wall, Tombstone}
use Rattle.game_tables.specs.declared.kind.Part.{Part}
use Rattle.game_tables.specs.declared.kind.Part.TheVariants.{Move, Work, Carry, Attack, RangedAttack, Tough, Heal, Claim}

kind_of : ℕ → Kind
kind_of n = cond (n == 1) Source (cond (n == 2) Controller (cond (n == 3) Creep (cond (n == 4) Spawn (cond (n == 5) Extension (cond (n == 6) Storage (cond (n == 7) Container (cond (n == 8) Road (cond (n == 9) Pile (cond (n == 10) Site (cond (n == 11) Tower (cond (n == 12) Rampart (cond (n == 13) Wall Tombstone))))))))))))

kind_back : (kind : Kind) → kind_of (kind_number kind) ≡ kind
unfolding kind_of
kind_back Source = refl
kind_back Controller = refl
kind_back Creep = refl
kind_back Spawn = refl
kind_back Extension = refl
kind_back Storage = refl
kind_back Container = refl
kind_back Road = refl
kind_back Pile = refl
kind_back Site = refl
kind_back Tower = refl
kind_back Rampart = refl
kind_back Wall = refl
kind_back Tombstone = refl

pub kind_number_injective : (kind other : Kind) → kind_number kind ≡ kind_number other → kind ≡ other
kind_number_injective kind other e = sym (kind_back kind) ∙ ap kind_of e ∙ kind_back other

part_of : ℕ → Part
part_of n = cond (n == 1) Move (cond (n == 2) Work (cond (n == 3) Carry (cond (n == 4) Attack (cond (n == 5) RangedAttack (cond (n == 6) Tough (cond (n == 7) Heal Claim))))))

part_back : (part : Part) → part_of (part_number part) ≡ part
unfolding part_of
part_back Move = refl
part_back Work = refl
part_back Carry = refl
part_back Attack = refl
part_back RangedAttack = refl
part_back Tough = refl
part_back Heal = refl
part_back Claim = refl

pub part_number_injective : (part other : Part) → part_number part ≡ part_number other → part ≡ other
part_number_injective part other e = sym (part_back part) ∙ ap part_of e ∙ part_back other
