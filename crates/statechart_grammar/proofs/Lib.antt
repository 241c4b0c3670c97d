pub mod WordLaws
pub mod ChainLaws
pub mod ExpressionLaws
pub mod TransitionLaws
pub mod DeclarationLaws
pub mod ActionLaws
pub mod ItemLaws
pub mod StateLaws
