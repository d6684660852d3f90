-- Where one search finds the answer to every need of a function, it is asked for all of them at once.
--     eight, ten, twelve, thirteen     a function of so many answers as one of the tuple of them
-- Assumes nothing.
module _ {A B C D E F G H : Type 0} where
  pub eight {ℓ} : {R : Type ℓ} → (A → B → C → D → E → F → G → H → R) → A × B × C × D × E × F × G × H → R
  eight f x = f x.0 x.1 x.2 x.3 x.4 x.5 x.6 x.7

  module _ {I J : Type 0} where
    pub ten {ℓ} : {R : Type ℓ} → (A → B → C → D → E → F → G → H → I → J → R) → A × B × C × D × E × F × G × H × I × J → R
    ten f x = f x.0 x.1 x.2 x.3 x.4 x.5 x.6 x.7 x.8 x.9

    module _ {K L : Type 0} where
      pub twelve {ℓ} : {R : Type ℓ} → (A → B → C → D → E → F → G → H → I → J → K → L → R)
          → A × B × C × D × E × F × G × H × I × J × K × L → R
      twelve f x = f x.0 x.1 x.2 x.3 x.4 x.5 x.6 x.7 x.8 x.9 x.10 x.11

      module _ {N : Type 0} where
        pub thirteen {ℓ} : {R : Type ℓ} → (A → B → C → D → E → F → G → H → I → J → K → L → N → R)
            → A × B × C × D × E × F × G × H × I × J × K × L × N → R
        thirteen f x = f x.0 x.1 x.2 x.3 x.4 x.5 x.6 x.7 x.8 x.9 x.10 x.11 x.12
