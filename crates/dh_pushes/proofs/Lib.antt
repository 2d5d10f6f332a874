pub mod PushPlans
